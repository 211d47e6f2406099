pub mod BlockUnder
