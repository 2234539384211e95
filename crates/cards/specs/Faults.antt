-- What each refusal of a card, and of its printing, tells: its number, its layer and its place.
use Rattle.std.specs.Prelude.{ℕ}
use Rattle.forms.specs.declared.fault.Layer.{Layer}
use Rattle.forms.specs.declared.fault.Layer.TheVariants.{Card, Writer}
use Rattle.symbols.specs.Telling.{writer_number, writer_layer, writer_place}
use Rattle.cards.specs.declared.fault.CardFault.{CardFault}
use Rattle.cards.specs.declared.fault.CardFault.TheVariants.{NotHeld, NoSuchYear, Outside}
use Rattle.cards.specs.declared.fault.PrintFault.{PrintFault}
use Rattle.cards.specs.declared.fault.PrintFault.TheVariants.{NoSymbol, Short}

abbrev pub card_number : CardFault → ℕ
card_number NotHeld = 12
card_number NoSuchYear = 13
card_number (Outside n) = 14

abbrev pub card_layer : CardFault → Layer
card_layer f = Card

abbrev pub card_place : CardFault → ℕ
card_place NotHeld = 0
card_place NoSuchYear = 0
card_place (Outside n) = n

abbrev pub print_number : PrintFault → ℕ
print_number (NoSymbol n) = 16
print_number (Short f) = writer_number f

abbrev pub print_layer : PrintFault → Layer
print_layer (NoSymbol n) = Writer
print_layer (Short f) = writer_layer f

abbrev pub print_place : PrintFault → ℕ
print_place (NoSymbol n) = n
print_place (Short f) = writer_place f
