pub mod Bracketed
pub mod SeveralAsOne
pub mod Chosen
pub mod Stacked
pub mod GroupRuns
pub mod Closed
