-- A tick of a station with messages, by what C lends.
pub mod Ticked
