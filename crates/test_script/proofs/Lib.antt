-- Lemmas of test_script.
mod Reading
