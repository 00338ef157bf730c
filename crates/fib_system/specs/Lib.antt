pub mod Fibonacci
pub mod FibonacciLaws
pub mod Additions
