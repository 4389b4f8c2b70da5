mod EachBody
mod FileBytes
