pub mod Lists
pub mod ProgressLemmas
pub mod RecoveryCases
pub mod Regains
