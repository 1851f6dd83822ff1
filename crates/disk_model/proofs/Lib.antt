mod Landing
mod Calls
mod Replay
mod Wider
