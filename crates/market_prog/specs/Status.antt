-- The exit status of `market run`.
use Rattle.std.specs.Prelude.{ℕ, ◌==◌, if◌then◌else◌, Result, Ok, Err}
use Rattle.market_prog.specs.declared.fault.RunFault.{RunFault}
use Rattle.market_prog.specs.declared.fault.RunFault.TheVariants.{Open, Read, TooLong, Write, Memory, HistoryFull}

-- 0 where all lines were read, 1 where one was unread, 2 where the market was not opened, 3 after any other fault
abbrev pub status_of : Result ℕ RunFault → ℕ
status_of (Ok unread) = if unread == 0 then 0 else 1
status_of (Err (Open fault)) = 2
status_of (Err Read) = 3
status_of (Err TooLong) = 3
status_of (Err Write) = 3
status_of (Err Memory) = 3
status_of (Err HistoryFull) = 3
