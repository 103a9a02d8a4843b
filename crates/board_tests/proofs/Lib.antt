mod Sorts
mod Watched
