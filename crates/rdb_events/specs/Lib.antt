pub mod NextEvent
