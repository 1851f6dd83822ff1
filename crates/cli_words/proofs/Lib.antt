mod Answering
mod Meanings
mod Money
