-- What a caller shows of sections that are read piece by piece, of entries that are numbered, and
-- of attributes that are spelled.
pub use Rattle.calls_text.proofs.Attributes.{attr_at, times_of}
pub use Rattle.calls_text.proofs.Entries.{numbered_more}
pub use Rattle.calls_text.proofs.Readers.{section_within, whole_none}
