-- A level's list may cross threads.
use denote.Param.Send.{IsSend, sendable}
use Rattle.std.proofs.Crossing.{crosses}
use Rattle.prefix_tree.proofs.Crossing.{tree_send}
use Rattle.level_list.specs.contracts.list.LevelList as LevelList

pub list_send : IsSend LevelList.the_row
list_send = search (crosses, sendable, tree_send) depth 40
