-- What each refusal of a list of words tells: its number, its layer and its place.
use Rattle.std.specs.Prelude.{ℕ}
use Rattle.forms.specs.declared.fault.Layer.{Layer}
use Rattle.forms.specs.declared.fault.Layer.TheVariants.{Book}
use Rattle.books.specs.declared.fault.BookFault.{BookFault}
use Rattle.books.specs.declared.fault.BookFault.TheVariants.{Unlawful, Overlap}

abbrev pub book_number : BookFault → ℕ
book_number (Unlawful p) = 21
book_number (Overlap p) = 22

abbrev pub book_layer : BookFault → Layer
book_layer (Unlawful p) = Book
book_layer (Overlap p) = Book

abbrev pub book_place : BookFault → ℕ
book_place (Unlawful p) = p
book_place (Overlap p) = p
