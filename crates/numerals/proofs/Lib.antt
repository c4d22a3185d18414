-- length-line, key→underway, value→ended: a line's key, value and end, one behind the other
pub mod Line
