mod Growing
mod PageLists
