mod Fitting
mod Going
mod Looking
mod Operations
mod Placing
mod Replies
mod Settling
mod Stands
