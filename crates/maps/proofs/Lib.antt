pub mod Results
pub mod Tables
