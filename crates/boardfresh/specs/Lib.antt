-- What the fresh board's arrays show, and why shutting the holes makes them so.
pub mod Shutting
pub mod FreshView
