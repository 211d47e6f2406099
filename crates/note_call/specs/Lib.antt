pub mod NoteFilled
