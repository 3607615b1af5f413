mod Pairs
mod FileFaults
mod Buffers
mod Zeros
mod Used
mod Assembled
