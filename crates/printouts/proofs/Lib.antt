mod Accepted
mod Carrying
mod InPages
mod OneLine
mod Readers
