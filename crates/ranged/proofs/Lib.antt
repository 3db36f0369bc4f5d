mod Frames
mod Spans
