mod Folds
mod InOrder
