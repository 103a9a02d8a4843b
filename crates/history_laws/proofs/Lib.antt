mod Asked
mod Named
mod Lists
mod Fates
mod Fitting
