pub mod WordTableTests
