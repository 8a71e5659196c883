-- What it means that a list of checks refuses nothing.
use Rattle.limits.specs.Checks.{refuse}
use Rattle.std.specs.Option.{option_or}
use Rattle.std.proofs.Common.{◌≡◌, Bool, true, false, Some, None, Option, refl}

-- the check passes, and so do those after it
pub refuse_none : {R : Type 0} (b : Bool) (why : R) (rest : Option R) → refuse b why rest ≡ None → (b ≡ false) × (rest ≡ None)
refuse_none true why rest e = cc
refuse_none false why rest e = (refl, e)

pub none_refuse : {R : Type 0} (b : Bool) (why : R) (rest : Option R) → b ≡ false → rest ≡ None → refuse b why rest ≡ None
none_refuse b why rest e f = rw e f

-- one list of checks after another
pub or_none : {R : Type 0} (x y : Option R) → option_or x y ≡ None → (x ≡ None) × (y ≡ None)
or_none None y e = (refl, e)
or_none (Some r) y e = cc

pub none_or : {R : Type 0} (x y : Option R) → x ≡ None → y ≡ None → option_or x y ≡ None
none_or x y e f = rw e f
