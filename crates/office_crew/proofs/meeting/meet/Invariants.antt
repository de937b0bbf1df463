use Rattle.office_crew.proofs.meeting.meet.Given as goal

abbrev pub ghosts-met : goal.ghosts-met
ghosts-met g a = record { table = a.office.table }
