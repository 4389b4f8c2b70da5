use Rattle.std.proofs.Common.{◌≡◌, ◌≤◌, ◌∙◌, ap, refl, sym, subst, inl, inr, arith}
use Rattle.std.specs.Prelude.{IfSome}
use Rattle.std.specs.Option.{option_copied}
use Rattle.cbdc_model.specs.Records.{Header}
use Rattle.coord_log.specs.Opening.{IsCoord}
use Rattle.rack_ledgers.specs.Ledgers.{IsMintOf, IsOtherMint}
use Rattle.rack_ledgers.proofs.Others.{kept_but, kept_then}
use Rattle.rack_ledgers.proofs.Opened.{lead_at, node_back}
use Rattle.rack_ledgers.proofs.Lacks.{other_mint_kind}
use Rattle.rack_ledgers.proofs.Told.{of_told}
use Rattle.rack_ledgers.proofs.opening.open_lead.Goals as goal

pub returns-in-Some-clause-refusal : goal.returns-in-Some-clause-refusal
returns-in-Some-clause-refusal g c =
    inr (inl (record {
      lead = c.in-Ok.lead;
      first = ap (λ (k : Header). k.node) c.in-Ok.ensures.fits.asked;
      lead_at = lead_at g.R.Disk.Disk IsCoord (g.R.Rack.held c.args.rack.now) c.in-Ok.lead.header c.in-Ok.lead refl c.in-Ok.ensures.fits
          c.in-Ok.ensures.opened;
      other = subst (λ (k : Header). IsOtherMint (option_copied c.args.id) k c.in-Some.fault) c.header.ensures.header c.in-Some.ensures;
    }))

pub returns-in-Err-clause-others : goal.returns-in-Err-clause-others
returns-in-Err-clause-others g c = c.in-Err.ensures.others

pub returns-in-None-clause-others : goal.returns-in-None-clause-others
returns-in-None-clause-others g c = c.in-Ok.ensures.others

pub returns-in-Some-clause-others : goal.returns-in-Some-clause-others
returns-in-Some-clause-others g c = kept_then c.in-Ok.ensures.others
    (kept_but c.put.ensures.others c.put.ensures.others_in c.put.ensures.others_out c.put.ensures.later)

pub other_mint-requires : goal.other_mint-requires
other_mint-requires g c = ap (λ (k : Header). k.node) c.header.ensures.header ∙ ap (λ (k : Header). k.node) c.in-Ok.ensures.fits.asked

pub put-requires : goal.put-requires
put-requires g c =
    c.in-Ok.ensures.out (g.R.Disk.Disk.count c.into_disk.result)
    (subst (λ (d : g.row.R-Disk.Denot). g.R.Disk.Disk.count c.in-Ok.lead.disk ≤ g.R.Disk.Disk.count d) (sym c.into_disk.ensures) (omega arith))

pub returns-in-Err-clause-refusal : goal.returns-in-Err-clause-refusal
returns-in-Err-clause-refusal g c = inl (record { kind = c.in-Err.ensures.kind; fault = c.in-Err.ensures.fault; cause = c.in-Err.ensures.refusal })

pub returns-in-Err-clause-kind : goal.returns-in-Err-clause-kind
returns-in-Err-clause-kind g c = c.in-Err.ensures.kind

pub returns-in-Err-clause-held : goal.returns-in-Err-clause-held
returns-in-Err-clause-held g c = c.in-Err.ensures.held

pub returns-in-Err-clause-back : goal.returns-in-Err-clause-back
returns-in-Err-clause-back g c = c.in-Err.ensures.back

pub returns-in-None-clause-opened : goal.returns-in-None-clause-opened
returns-in-None-clause-opened g c = (
  ap (λ (k : Header). k.node) c.in-Ok.ensures.fits.asked,
  lead_at g.R.Disk.Disk IsCoord (g.R.Rack.held c.args.rack.now) c.in-Ok.lead.header c.in-Ok.lead refl c.in-Ok.ensures.fits c.in-Ok.ensures.opened,
)

pub returns-in-None-clause-minted : goal.returns-in-None-clause-minted
returns-in-None-clause-minted g c = subst (λ (k : Header). IsMintOf (option_copied c.args.id) k) c.header.ensures.header c.in-None.ensures

pub returns-in-None-clause-since : goal.returns-in-None-clause-since
returns-in-None-clause-since g c = c.in-Ok.ensures.since

pub returns-in-None-clause-out : goal.returns-in-None-clause-out
returns-in-None-clause-out g c = c.in-Ok.ensures.out

pub returns-in-Some-clause-kind : goal.returns-in-Some-clause-kind
returns-in-Some-clause-kind g c = other_mint_kind (option_copied c.args.id) c.header.result.now c.in-Some.fault c.in-Some.ensures

pub returns-in-Some-clause-held : goal.returns-in-Some-clause-held
returns-in-Some-clause-held g c =
    node_back g.R.Disk.Disk IsCoord (g.R.Rack.held c.args.rack.now) (g.R.Rack.held c.put.new.self) (g.R.Rack.count c.args.rack.now 0)
    (g.R.Rack.count c.put.new.self 0) c.in-Ok.lead.header 0 c.in-Ok.lead
    (lead_at g.R.Disk.Disk IsCoord (g.R.Rack.held c.args.rack.now) c.in-Ok.lead.header c.in-Ok.lead refl c.in-Ok.ensures.fits c.in-Ok.ensures.opened)
    (of_told _ _ (subst (λ (d : g.row.R-Disk.Denot). IfSome (g.R.Rack.held c.put.new.self 0) (λ now. now ≡ d)) c.into_disk.ensures
    c.put.ensures.disk))

pub returns-in-Some-clause-back : goal.returns-in-Some-clause-back
returns-in-Some-clause-back g c = c.put.ensures.back
