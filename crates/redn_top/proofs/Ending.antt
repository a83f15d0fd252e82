-- How commands end, by what their parts answer.
use Rattle.std.proofs.Common.{◌≡◌, ◌≤◌, ℕ, List, [], ◌∷◌, ◌++◌, length, take, drop, inl, inr, refl, sym, ap, subst, ◌∙◌}
use Rattle.std.proofs.lemmas.List.{take-append-drop}
use Rattle.std.specs.Prelude.{◌≢◌, codes, Option, Some, None, Result, Ok, Err, OnOk, IfErr}
use Rattle.std.specs.Option.{option_map}
use Rattle.redn_syntax.specs.declared.tree.File.{File}
use Rattle.redn_syntax.specs.Canonical.{canonical_text}
use Rattle.redn_check.specs.Rules.{Accepts}
use Rattle.redn_check.specs.Numbering.{program_of}
use Rattle.redn_kernel.specs.declared.types.Program.{Program}
use Rattle.redn_outside.specs.Counts.{Rose}
use Rattle.redn_outside.specs.Files.{Files, OthersStay, with_file}
use Rattle.redn_outside.specs.Seen.{StoreSeen, SinkSeen, KeepsFiles}
use Rattle.redn_disasm.specs.Assembly.{Assembles, Made}
use Rattle.redn_disasm.specs.Listing.{listing_text}
use Rattle.redn_image.specs.Rules.{Image, numbers_of}
use Rattle.redn_image.specs.Spelling.{Spells, spelling}
use Rattle.redn_image.specs.Faithful.{Faithful}
use Rattle.redn_top.specs.declared.limits.TheConstants.{MAX_FILE, MAX_IMAGE, MAX_LISTING}
use Rattle.redn_top.specs.declared.status.Status.{Status}
use Rattle.redn_top.specs.declared.status.Status.TheVariants.{Done, Words, Schedule as BadSchedule, ReadFailed, Missing, WriteFailed, Long, Text, Program as ProgramRefused, Image as ImageRefused, Memory, Step, Message}
use Rattle.redn_command.specs.Words.{Command, Check, Compile, Disasm, Assemble}
use Rattle.redn_top.specs.Sources.{IsTextOf, Means}
use Rattle.redn_top.specs.Reasons.{Input, IsInput, NoneHolds, First, read_reasons, source_reasons, image_reasons, listing_reasons, reasons}
use Rattle.redn_top.specs.Answers.{Written, Listed, Checked, IsPart, Answered, Ends, first_written, with_written, status_of}
use Rattle.redn_top.specs.Refusals.{IsHeld, ReadsRefuse, ReadRefused, Refuses, SourceRefused, LinesRefused, PutRefused, WriteRefused}
use Rattle.redn_top.proofs.FirstReason.{first_here, first_behind, none_both, refuses_map, reads_map, read_passed}
use Rattle.redn_top.proofs.Contents.{means_none, source_refused}
use Rattle.redn_top.proofs.ImageRuns.{told_nothing}
use Rattle.redn_top.proofs.RunLemmas.{some_before, some_behind}

pub written_nothing : (held : Option Files) → held ≡ option_map (with_written []) held
written_nothing None = refl
written_nothing (Some files) = refl

pub written_one : (name bytes : List ℕ) (held : Option Files) → option_map (with_file name bytes) held ≡ option_map (with_written (record { name = name; bytes = bytes } ∷ [])) held
written_one name bytes None = refl
written_one name bytes (Some files) = refl

-- ---- nothing but reads

module _ (c : Command) (before now : StoreSeen) (out : SinkSeen) (told : now.told ≡ before.told) (i : Input) (is : IsInput before.told c i) where
  told_refusal : (s : Status) → First (reasons c i) s → Answered c before now out out s
  told_refusal s h =
      record { input = i; printed = []; written = []; is_input = is; answers = inl (h, refl, refl); holds = told ∙ written_nothing before.told; prints = told_nothing out.told }

  pub reads_end : (s : Status) → ReadsRefuse (reasons c i) before now s → Ends c before now out out s
  reads_end ReadFailed h = (h, record { holds = told; prints = refl })
  reads_end Memory h = inl (record { holds = told; prints = refl })
  reads_end Missing h = (h.0, told_refusal Missing h.1)
  reads_end (Long seen limit) h = (h.0, told_refusal (Long seen limit) h.1)
  reads_end Done h = absurd h
  reads_end WriteFailed h = absurd h
  reads_end (Text fault) h = absurd h
  reads_end (ProgramRefused rule at seen) h = absurd h
  reads_end (ImageRefused fault) h = absurd h
  reads_end (Step line) h = absurd h
  reads_end (Message fault) h = absurd h
  reads_end Words h = absurd h
  reads_end (BadSchedule number) h = absurd h

  pub contents_end : (s : Status) → Refuses (reasons c i) s → Ends c before now out out s
  contents_end Memory h = inl (record { holds = told; prints = refl })
  contents_end (Text fault) h = told_refusal (Text fault) h
  contents_end (ProgramRefused rule at seen) h = told_refusal (ProgramRefused rule at seen) h
  contents_end (ImageRefused fault) h = told_refusal (ImageRefused fault) h
  contents_end Words h = absurd h
  contents_end (BadSchedule number) h = absurd h
  contents_end ReadFailed h = absurd h
  contents_end Missing h = absurd h
  contents_end (Long seen limit) h = absurd h
  contents_end Done h = absurd h
  contents_end WriteFailed h = absurd h
  contents_end (Step line) h = absurd h
  contents_end (Message fault) h = absurd h

-- ---- a write that failed

module _ (c : Command) (before mid now : StoreSeen) (out : SinkSeen) (keeps : KeepsFiles before mid) (i : Input) (is : IsInput before.told c i) (none : NoneHolds (reasons c i)) (name : List ℕ) (is_first : first_written c ≡ Some name) (others : OthersStay name mid.told now.told) where
  pub write_ends : (s : Status) → WriteRefused mid now s → Ends c before now out out s
  write_ends WriteFailed h =
      inl (
        (subst (λ (n : ℕ). Rose n now.counts.write_faults) keeps.write_faults h.0, sym keeps.reliable ∙ h.1),
        inl (record { input = i; name = name; is_first = is_first; is_input = is; none = none; others = subst (λ (t : Option Files). OthersStay name t now.told) keeps.told others; prints = refl }),
      )
  write_ends Memory h = inl (record { holds = ap (λ (x : StoreSeen). x.told) h ∙ keeps.told; prints = refl })
  write_ends Done h = absurd h
  write_ends ReadFailed h = absurd h
  write_ends Missing h = absurd h
  write_ends (Long seen limit) h = absurd h
  write_ends (Text fault) h = absurd h
  write_ends (ProgramRefused rule at seen) h = absurd h
  write_ends (ImageRefused fault) h = absurd h
  write_ends (Step line) h = absurd h
  write_ends (Message fault) h = absurd h
  write_ends Words h = absurd h
  write_ends (BadSchedule number) h = absurd h

-- ---- each command

one_file : List ℕ → Input
one_file text = record { first = Some text; schedule = None }

-- check FILE
module _ (file : List ℕ) (before now : StoreSeen) (out : SinkSeen) (told : now.told ≡ before.told) where
  pub check_unread : (s : Status) → ReadRefused before.told file MAX_FILE before now s → Ends (Check file) before now out out s
  check_unread s r =
      let i : Input = record { first = r.file; schedule = None } in
      reads_end (Check file) before now out told i r.found s (reads_map (read_reasons r.file MAX_FILE) (reasons (Check file) i) (first_here (read_reasons r.file MAX_FILE) (source_reasons r.file)) before now s r.refuses)

  pub check_refused : (text : List ℕ) → IsHeld before.told file MAX_FILE text → (s : Status) → SourceRefused text s → Ends (Check file) before now out out s
  unfolding one_file
  check_refused text held s h =
      contents_end (Check file) before now out told (one_file text) held.found s
      (refuses_map (source_reasons (Some text)) (reasons (Check file) (one_file text)) (λ t. first_behind (read_reasons (Some text) MAX_FILE) (source_reasons (Some text)) t (read_passed text MAX_FILE held.fits)) s (source_refused text s h))

  pub check_put : (text printed : List ℕ) (f : File) → IsHeld before.told file MAX_FILE text → IsTextOf text f → Accepts f → printed ≡ canonical_text f → (out_now : SinkSeen) (r : Result (Unit {0}) Status) → OnOk r (out_now.told ≡ option_map (λ t. t ++ printed) out.told) → IfErr r (PutRefused printed out out_now) → Ends (Check file) before now out out_now (status_of r)
  unfolding one_file
  check_put text printed f held read accepted is out_now r ok err =
      let means : Means text (program_of f) = record { file = f; read = read; accepted = accepted; is = refl } in
      let none : NoneHolds (reasons (Check file) (one_file text)) = none_both (read_reasons (Some text) MAX_FILE) (source_reasons (Some text)) (read_passed text MAX_FILE held.fits) (means_none text (program_of f) means) in
      put_ends r ok err none where
        put_ends : (r : Result (Unit {0}) Status) → OnOk r (out_now.told ≡ option_map (λ t. t ++ printed) out.told) → IfErr r (PutRefused printed out out_now) → NoneHolds (reasons (Check file) (one_file text)) → Ends (Check file) before now out out_now (status_of r)
        put_ends (Ok done) e h none = record {
          input = one_file text;
          printed = printed;
          written = [];
          is_input = held.found;
          answers = inr (none, record { source = text; file = f; found = refl; read = read; accepted = accepted; done = refl; prints = is; writes = refl });
          holds = told ∙ written_nothing before.told;
          prints = e;
        }
        put_ends (Err WriteFailed) e h none =
            let both = take-append-drop h.1.0 printed in
            let checked : Checked (one_file text) Done (take h.1.0 printed ++ drop h.1.0 printed) [] = record { source = text; file = f; found = refl; read = read; accepted = accepted; done = refl; prints = both ∙ is; writes = refl } in
            let part : IsPart (Check file) (one_file text) (take h.1.0 printed) [] = record { status = Done; rest = drop h.1.0 printed; later = []; finishes = checked } in
            inr (
              h.0,
              record {
                broke = record { input = one_file text; printed = take h.1.0 printed; written = []; is_input = held.found; none = none; part = part; behind = tt; holds = told ∙ written_nothing before.told; prints = h.1.1 };
                some = λ e. some_behind _ (10 ∷ []) (λ n. absurd (cc)) (sym (both ∙ is) ∙ e);
              },
            )
        put_ends (Err Memory) e h none = absurd h
        put_ends (Err Done) e h none = absurd h
        put_ends (Err ReadFailed) e h none = absurd h
        put_ends (Err Missing) e h none = absurd h
        put_ends (Err (Long seen limit)) e h none = absurd h
        put_ends (Err (Text fault)) e h none = absurd h
        put_ends (Err (ProgramRefused rule at seen)) e h none = absurd h
        put_ends (Err (ImageRefused fault)) e h none = absurd h
        put_ends (Err (Step line)) e h none = absurd h
        put_ends (Err (Message fault)) e h none = absurd h
        put_ends (Err Words) e h none = absurd h
        put_ends (Err (BadSchedule number)) e h none = absurd h

-- compile FILE IMAGE
module _ (file name : List ℕ) (before mid : StoreSeen) (out : SinkSeen) (keeps : KeepsFiles before mid) where
  pub compile_unread : (s : Status) → ReadRefused before.told file MAX_FILE before mid s → Ends (Compile file name) before mid out out s
  compile_unread s r =
      let i : Input = record { first = r.file; schedule = None } in
      reads_end (Compile file name) before mid out keeps.told i r.found s (reads_map (read_reasons r.file MAX_FILE) (reasons (Compile file name) i) (first_here (read_reasons r.file MAX_FILE) (source_reasons r.file)) before mid s r.refuses)

  module _ (text : List ℕ) (held : IsHeld before.told file MAX_FILE text) where
    pub compile_refused : (s : Status) → Refuses (source_reasons (Some text)) s → Ends (Compile file name) before mid out out s
    unfolding one_file
    compile_refused s h =
        contents_end (Compile file name) before mid out keeps.told (one_file text) held.found s
        (refuses_map (source_reasons (Some text)) (reasons (Compile file name) (one_file text)) (λ t. first_behind (read_reasons (Some text) MAX_FILE) (source_reasons (Some text)) t (read_passed text MAX_FILE held.fits)) s h)

    module _ (p : Program) (means : Means text p) (accepted : NoneHolds (source_reasons (Some text))) (image : Image) (faithful : Faithful p image) (small : length (spelling image) ≤ MAX_IMAGE) (now : StoreSeen) (others : OthersStay name mid.told now.told) where
      compile_none : NoneHolds (reasons (Compile file name) (one_file text))
      unfolding one_file
      compile_none = none_both (read_reasons (Some text) MAX_FILE) (source_reasons (Some text)) (read_passed text MAX_FILE held.fits) accepted

      pub compile_written : (r : Result (Unit {0}) Status) → OnOk r ((bytes : List ℕ) × Spells bytes image × (now.told ≡ option_map (with_file name bytes) mid.told)) → IfErr r (WriteRefused mid now) → Ends (Compile file name) before now out out (status_of r)
      unfolding one_file
      compile_written (Ok done) w h =
          let written : List Written = record { name = name; bytes = w.0 } ∷ [] in
          record {
            input = one_file text;
            printed = [];
            written = written;
            is_input = held.found;
            answers = inr (compile_none, ((image, record { source = text; program = p; bytes = w.0; found = refl; means = means; spells = w.1; faithful = faithful; small = subst (λ (b : List ℕ). length b ≤ MAX_IMAGE) (sym w.1.bytes_are) small; writes = refl }), refl, refl));
            holds = w.2 ∙ ap (option_map (with_file name w.0)) keeps.told ∙ written_one name w.0 before.told;
            prints = told_nothing out.told;
          }
      compile_written (Err s) w h = write_ends (Compile file name) before mid now out keeps (one_file text) held.found compile_none name refl others s h

-- a listing has lines
listing_some : (i : Image) → listing_text i ≢ []
unfolding listing_text
listing_some i e = some_before (codes "redn 1\n") _ (λ n. absurd (cc)) e

-- disasm IMAGE
module _ (name : List ℕ) (before now : StoreSeen) (out : SinkSeen) (told : now.told ≡ before.told) where
  pub disasm_unread : (s : Status) → ReadRefused before.told name MAX_IMAGE before now s → Ends (Disasm name) before now out out s
  disasm_unread s r =
      let i : Input = record { first = r.file; schedule = None } in
      reads_end (Disasm name) before now out told i r.found s (reads_map (read_reasons r.file MAX_IMAGE) (reasons (Disasm name) i) (first_here (read_reasons r.file MAX_IMAGE) (image_reasons r.file)) before now s r.refuses)

  module _ (bytes : List ℕ) (held : IsHeld before.told name MAX_IMAGE bytes) where
    pub disasm_refused : (s : Status) → Refuses (image_reasons (Some bytes)) s → Ends (Disasm name) before now out out s
    unfolding one_file
    disasm_refused s h =
        contents_end (Disasm name) before now out told (one_file bytes) held.found s
        (refuses_map (image_reasons (Some bytes)) (reasons (Disasm name) (one_file bytes)) (λ t. first_behind (read_reasons (Some bytes) MAX_IMAGE) (image_reasons (Some bytes)) t (read_passed bytes MAX_IMAGE held.fits)) s h)

    module _ (image : Image) (spells : Spells bytes image) (accepted : NoneHolds (image_reasons (Some bytes))) (text : List ℕ) (lists : text ≡ listing_text image) (out_now : SinkSeen) where
      disasm_none : NoneHolds (reasons (Disasm name) (one_file bytes))
      unfolding one_file
      disasm_none = none_both (read_reasons (Some bytes) MAX_IMAGE) (image_reasons (Some bytes)) (read_passed bytes MAX_IMAGE held.fits) accepted

      pub disasm_put : (r : Result (Unit {0}) Status) → OnOk r (out_now.told ≡ option_map (λ t. t ++ text) out.told) → IfErr r (LinesRefused text out out_now) → Ends (Disasm name) before now out out_now (status_of r)
      unfolding one_file
      disasm_put (Ok done) e h = record {
        input = one_file bytes;
        printed = text;
        written = [];
        is_input = held.found;
        answers = inr (disasm_none, (record { bytes = bytes; image = image; found = refl; spells = spells; prints = lists }, refl, refl));
        holds = told ∙ written_nothing before.told;
        prints = e;
      }
      disasm_put (Err WriteFailed) e h =
          let listed : Listed (one_file bytes) (h.1.0 ++ h.1.1) = record { bytes = bytes; image = image; found = refl; spells = spells; prints = sym h.1.2 ∙ lists } in
          let part : IsPart (Disasm name) (one_file bytes) h.1.0 [] = record { status = Done; rest = h.1.1; later = []; finishes = (listed, refl, refl) } in
          inr (
            h.0,
            record {
              broke = record { input = one_file bytes; printed = h.1.0; written = []; is_input = held.found; none = disasm_none; part = part; behind = tt; holds = told ∙ written_nothing before.told; prints = h.1.3 };
              some = λ e. listing_some image (sym lists ∙ h.1.2 ∙ e);
            },
          )
      disasm_put (Err Memory) e h = absurd h
      disasm_put (Err Done) e h = absurd h
      disasm_put (Err ReadFailed) e h = absurd h
      disasm_put (Err Missing) e h = absurd h
      disasm_put (Err (Long seen limit)) e h = absurd h
      disasm_put (Err (Text fault)) e h = absurd h
      disasm_put (Err (ProgramRefused rule at seen)) e h = absurd h
      disasm_put (Err (ImageRefused fault)) e h = absurd h
      disasm_put (Err (Step line)) e h = absurd h
      disasm_put (Err (Message fault)) e h = absurd h
      disasm_put (Err Words) e h = absurd h
      disasm_put (Err (BadSchedule number)) e h = absurd h

-- assemble LISTING IMAGE
module _ (file name : List ℕ) (before mid : StoreSeen) (out : SinkSeen) (keeps : KeepsFiles before mid) where
  pub assemble_unread : (s : Status) → ReadRefused before.told file MAX_LISTING before mid s → Ends (Assemble file name) before mid out out s
  assemble_unread s r =
      let i : Input = record { first = r.file; schedule = None } in
      reads_end (Assemble file name) before mid out keeps.told i r.found s (reads_map (read_reasons r.file MAX_LISTING) (reasons (Assemble file name) i) (first_here (read_reasons r.file MAX_LISTING) (listing_reasons r.file)) before mid s r.refuses)

  module _ (text : List ℕ) (held : IsHeld before.told file MAX_LISTING text) where
    pub assemble_refused : (s : Status) → Refuses (listing_reasons (Some text)) s → Ends (Assemble file name) before mid out out s
    unfolding one_file
    assemble_refused s h =
        contents_end (Assemble file name) before mid out keeps.told (one_file text) held.found s
        (refuses_map (listing_reasons (Some text)) (reasons (Assemble file name) (one_file text)) (λ t. first_behind (read_reasons (Some text) MAX_LISTING) (listing_reasons (Some text)) t (read_passed text MAX_LISTING held.fits)) s h)

    module _ (image : Image) (means : Assembles text (Made (numbers_of image) image.memory)) (accepted : NoneHolds (listing_reasons (Some text))) (now : StoreSeen) (others : OthersStay name mid.told now.told) where
      assemble_none : NoneHolds (reasons (Assemble file name) (one_file text))
      unfolding one_file
      assemble_none = none_both (read_reasons (Some text) MAX_LISTING) (listing_reasons (Some text)) (read_passed text MAX_LISTING held.fits) accepted

      pub assemble_written : (r : Result (Unit {0}) Status) → OnOk r ((bytes : List ℕ) × Spells bytes image × (now.told ≡ option_map (with_file name bytes) mid.told)) → IfErr r (WriteRefused mid now) → Ends (Assemble file name) before now out out (status_of r)
      unfolding one_file
      assemble_written (Ok done) w h =
          let written : List Written = record { name = name; bytes = w.0 } ∷ [] in
          record {
            input = one_file text;
            printed = [];
            written = written;
            is_input = held.found;
            answers = inr (assemble_none, (record { text = text; image = image; bytes = w.0; found = refl; means = means; spells = w.1; writes = refl }, refl, refl));
            holds = w.2 ∙ ap (option_map (with_file name w.0)) keeps.told ∙ written_one name w.0 before.told;
            prints = told_nothing out.told;
          }
      assemble_written (Err s) w h = write_ends (Assemble file name) before mid now out keeps (one_file text) held.found assemble_none name refl others s h
