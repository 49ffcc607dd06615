pub mod Results
pub mod Progress
pub mod Characters
pub mod Elements
pub mod Bounds
pub mod Numbers
pub mod Strings
pub mod RoundTrip
