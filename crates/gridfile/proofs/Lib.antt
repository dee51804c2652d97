-- Laws that the proofs of the crate cite.
mod FieldLaws
mod ReadLaws
mod RowLaws
mod HeaderLaws
mod WriteLaws
