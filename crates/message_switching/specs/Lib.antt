-- Start and stop of a station with messages, by what C lends.
pub mod Switched
