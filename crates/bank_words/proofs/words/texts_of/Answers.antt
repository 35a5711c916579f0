use Rattle.std.specs.Str.{is_utf8}
use Rattle.std.proofs.lemmas.Str.{IsUtf8-from_is_utf8}
use Rattle.std.proofs.lemmas.List.Sums.{AllPass-from_list_all}
use Rattle.bank_words.proofs.words.texts_of.Goals as goal

pub unreachable-requires : goal.unreachable-requires
unreachable-requires c =
    let all = AllPass-from_list_all is_utf8 c.args.words.now c.requires in
    let text = IsUtf8-from_is_utf8 _ (all c.loop-word.word-index c.word-item.result c.loop-word-test.true) in
    absurd (c.in-Err.ensures.cases.0 (rw (c.as_slice.ensures, c.word-item.is) text))
