-- Definitions that the contracts cite.
pub mod SystemFiles
pub mod UserSystems
pub mod SystemTexts
pub mod TextViews
pub mod SystemLoading
pub mod Looks
pub mod Taking
