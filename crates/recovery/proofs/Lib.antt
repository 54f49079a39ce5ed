mod Claims
mod Recovering
