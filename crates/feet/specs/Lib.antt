-- What the lines after the terms say, and what they leave.
-- Footing, foot_text; BodiesRead, FootRead: the bodies and the root
pub mod Feet
-- EndRead; EndRoom, EndGiven: all lines after the terms, and what is promised for areas of any lengths
pub mod Ends
