pub mod Calls
pub mod Results
pub mod Silence
pub mod CaseA
pub mod Bench
