-- How a refusal is told.
use Rattle.std.specs.Prelude.{ℕ, List, ◌++◌, codes, decimal}
use Rattle.forms.specs.declared.fault.Layer.{Layer}
use Rattle.forms.specs.Printed.{layer_name}

-- the text of a refusal with that number, layer and place
abbrev pub refusal_text : ℕ → Layer → ℕ → List ℕ
refusal_text number layer place =
    codes "refused " ++ (decimal number ++ (codes " " ++ (layer_name layer ++ (codes " " ++ decimal place))))
