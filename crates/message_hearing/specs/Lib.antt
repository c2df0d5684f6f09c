-- Hearing by a station with messages, by what C lends.
pub mod Heard
