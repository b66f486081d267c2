-- What the contracts of `log_rebase` cite: the new numbers, and the law of rebased logs.
pub mod Rebasing
