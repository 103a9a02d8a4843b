mod Examples
pub mod NumberSteps
pub mod TenPowers
pub mod Cuts
pub mod DecimalDigits
pub mod PrintableDigits
pub mod ReadBack
pub mod Remainders
