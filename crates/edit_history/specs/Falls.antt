-- A past is longer than each of those before it. No public clause has these words.
use Rattle.std.specs.Prelude.{◌≤◌, max, length, [], ◌∷◌}
use Rattle.std.proofs.Common.{arith, length-append}
use Rattle.edit_history.specs.declared.past.Last.{Last}
use Rattle.edit_history.specs.declared.past.Last.TheVariants.{Nothing, After, AfterOne}
use Rattle.edit_history.specs.declared.past.Past.TheDeep.{deep-Last}
use Rattle.edit_history.specs.Pasts.{entries, IsGrown}

pub falls : (l : Last) → IsGrown l → max (deep-Last l) 0 ≤ length (entries l)
falls Nothing h = omega arith
falls (After before part) h = omega (arith, length-append before.value part.value.items, h)
falls (AfterOne before entry) h = omega (arith, length-append before.value (entry.value ∷ []))
