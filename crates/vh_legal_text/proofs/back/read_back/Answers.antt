use Rattle.vh_legal_text.proofs.back.read_back.Goals as goal

pub print-requires : goal.print-requires
print-requires c = (c.legal_reads_back.ensures c.args.session.now c.args.entries.now c.requires).there
