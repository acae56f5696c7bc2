mod Numbered
mod Progress
mod Endings
mod Ended
