pub mod Cases
pub mod RuleCases
pub mod ClauseCases
pub mod Empty
