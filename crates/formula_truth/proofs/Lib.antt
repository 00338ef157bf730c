pub mod MeaningLemmas
pub mod ValueLemmas
pub mod AgreementLemmas
pub mod ViewLemmas
pub mod ChainLemmas
pub mod TrialLemmas
pub mod EvaluationLemmas
pub mod DecidingLemmas
