-- What is read of a text, of digits and of a key is written again as it was read.
use Rattle.std.specs.Prelude.{ℕ, List}
use Rattle.forms.specs.Laws.{Rewrites}
use Rattle.forms.specs.Texts.{text_lawful, digits_lawful, text_worth, text_writing}
use Rattle.forms.specs.Keys.{key_lawful, key_worth, key_writing}
use Rattle.forms.specs.Writings.{every-allowed, packed_rewrites}

pub text_rewrites : (y : ℕ) (f : List ℕ) → text_lawful y f → Rewrites text_lawful text_worth text_writing y f
text_rewrites y f h = packed_rewrites 30 text_lawful y f h h.all

pub digits_rewrites : (y : ℕ) (f : List ℕ) → digits_lawful y f → Rewrites digits_lawful text_worth text_writing y f
digits_rewrites y f h = packed_rewrites 30 digits_lawful y f h (every-allowed f h.all)

pub key_rewrites : (y : ℕ) (f : List ℕ) → key_lawful y f → Rewrites key_lawful key_worth key_writing y f
key_rewrites y f h = packed_rewrites 18 key_lawful y f h (every-allowed f h.all)
