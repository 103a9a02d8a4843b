pub mod Behind
pub mod Forms
pub mod LabelPlaces
pub mod Lists
