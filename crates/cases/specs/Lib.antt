pub mod Cases
pub mod RuleFits
pub mod RuleCases
pub mod ClauseCases
