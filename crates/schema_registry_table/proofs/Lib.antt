mod StatementLemmas
mod QueryLemmas
mod RowLemmas
mod StateLemmas
mod EnterLemmas
