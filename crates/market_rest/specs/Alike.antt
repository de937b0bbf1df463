-- What hangs on one arena, and on the limit, whatever is called at other arenas (own).
use Rattle.std.specs.Prelude.{◌≡◌, ℕ, pos, ◌==◌, Bool, true, false, if◌then◌else◌, List, map, ⊤}
use Rattle.std.specs.List.{filter}
use Rattle.market_types.specs.declared.command.Call.{Call}
use Rattle.market_types.specs.declared.command.Cmd.{Cmd}
use Rattle.market_types.specs.declared.command.Cmd.TheVariants.{Open, Close, Priority, Resize, Request, Control, Uncontrol}
use Rattle.market_types.specs.State.{Arena, State}

-- an arena as it is seen from arena `a`: of another one, not what it may use and has asked for
abbrev pub seen_from : ℕ → Arena → Arena
seen_from a b = if b.number == a then b else record b { claim = record { slots = 0; reserved = 0; wanted = pos 0; mandatory = 0 } }

-- two markets that differ at most in their seats, and in what other arenas than `a` may use and have asked for
pub record AreAlike (a : ℕ) (s t : State) : Type 0 where
  pub base : s.base ≡ t.base
  pub hard : s.hard ≡ t.hard
  pub levels : s.levels ≡ t.levels
  pub controls : s.controls ≡ t.controls
  pub last : s.last ≡ t.last
  pub next_arena : s.next_arena ≡ t.next_arena
  pub next_control : s.next_control ≡ t.next_control
  pub next_stamp : s.next_stamp ≡ t.next_stamp
  pub arenas : map (seen_from a) s.arenas ≡ map (seen_from a) t.arenas

-- the command makes an arena or a limit, or asks for workers of arena `a`
abbrev pub concerns : ℕ → Cmd → Bool
concerns a (Open slots reserved level) = true
concerns a (Request b workers mandatory) = b == a
concerns a (Control value) = true
concerns a cmd = false

-- the calls of these that do
abbrev pub concerning : ℕ → List Call → List Call
concerning a calls = filter (λ (c : Call). concerns a c.cmd) calls

-- it takes nothing away, and changes no arena but by a Request
abbrev pub IsPlain : Cmd → Type 0
IsPlain (Close a) = ⊥
IsPlain (Priority a level) = ⊥
IsPlain (Resize a slots reserved) = ⊥
IsPlain (Uncontrol c) = ⊥
IsPlain cmd = ⊤
