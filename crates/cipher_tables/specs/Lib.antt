pub mod ByteTableTests
