-- What the contracts of `text_lines` cite.
pub mod Input
