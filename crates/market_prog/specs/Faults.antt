-- Why a run stops, where a market was not opened, or its lines were not taken. No public clause has these words.
use Rattle.std.specs.Prelude.{◌≡◌}
use Rattle.market_types.specs.declared.reply.OpenFault.{OpenFault}
use Rattle.market_types.specs.declared.reply.OpenFault.TheVariants.{BadBase, BadHard, BadSeats, BadPlaces, BadLevels, Memory as NoMemory}
use Rattle.byte_devices.specs.declared.out_fault.OutFault.{OutFault}
use Rattle.byte_devices.specs.declared.out_fault.OutFault.TheVariants.{Write as WriteFailed, Memory as OutMemory}
use Rattle.edit_history.specs.declared.fault.CallFault.{CallFault}
use Rattle.edit_history.specs.declared.fault.CallFault.TheVariants.{Memory as CallMemory, HistoryFull as NoPlace}
use Rattle.market_prog.specs.declared.fault.RunFault.{RunFault}
use Rattle.market_prog.specs.declared.fault.RunFault.TheVariants.{Open, Read, TooLong, Write, Memory, HistoryFull}
use Rattle.line_engine.specs.declared.fault.InputFault.{InputFault}
use Rattle.line_engine.specs.declared.fault.InputFault.TheVariants.{Read as ReadFault, TooLong as LongInput, Write as WriteFault, Memory as InputMemory, Taker}

-- an opening's fault as a run's: running out of memory is the same in both
abbrev pub run_fault_of : OpenFault → RunFault
run_fault_of NoMemory = Memory
run_fault_of BadBase = Open BadBase
run_fault_of BadHard = Open BadHard
run_fault_of BadSeats = Open BadSeats
run_fault_of BadPlaces = Open BadPlaces
run_fault_of BadLevels = Open BadLevels

abbrev pub IsRunFaultOf : OpenFault → RunFault → Type 0
IsRunFaultOf fault stop = stop ≡ run_fault_of fault

-- a fault of the lines' input as a run's: a line is not taken where memory is wanting
abbrev pub run_fault_of_input : {F : Type 0} → InputFault F → RunFault
run_fault_of_input ReadFault = Read
run_fault_of_input LongInput = TooLong
run_fault_of_input WriteFault = Write
run_fault_of_input InputMemory = Memory
run_fault_of_input (Taker fault) = Memory

-- so where the lines are recorded: the history may also have no place
abbrev pub run_fault_of_recording : InputFault CallFault → RunFault
run_fault_of_recording ReadFault = Read
run_fault_of_recording LongInput = TooLong
run_fault_of_recording WriteFault = Write
run_fault_of_recording InputMemory = Memory
run_fault_of_recording (Taker CallMemory) = Memory
run_fault_of_recording (Taker NoPlace) = HistoryFull

-- a fault of a text's writing as a run's
abbrev pub run_fault_of_output : OutFault → RunFault
run_fault_of_output WriteFailed = Write
run_fault_of_output OutMemory = Memory
