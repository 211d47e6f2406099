pub mod RoundLaws
