mod MapLaws
mod NoteLaws
